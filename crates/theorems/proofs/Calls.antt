-- About every call.

-- a clause allows one reply, with one content of each lent buffer; one that leaves something open is not settled
pub mod NoSecondReply
pub mod NoSecondReplyToC
pub mod NoSecondReplyOfReplies
pub mod LooseClauses
-- what is left of a lent buffer
pub mod LeftAlone
pub mod LeftAloneByCalls
pub mod LeftAloneToC
-- when it answers, exactly
pub mod Answers
pub mod AnswersByCalls
pub mod AnswersToC
-- the parts of what it replies and leaves
pub mod Outcomes
-- which numbers its refusals have
pub mod RefusalNumbers
pub mod RefusalNumbersByCalls
pub mod RefusalNumbersToC
-- the same of the Results that the calls of the library give
pub mod OfResults
-- from what C is told the reply comes back
pub mod ToldToC
-- the laws of causes: what tests in turn refuse, and with which numbers
pub mod TestsInTurn
pub mod CauseNumbers
