-- About headers, data lists and channel blocks.

-- a header: when it is read, and that it is the same written and read, or read and written
pub mod HeaderAnswers
pub mod HeaderRoundTrip
-- a data list likewise
pub mod ListAnswers
pub mod Rewritten
pub mod ListWrittenRead
pub mod ListReadWritten
-- a channel block likewise
pub mod ChannelAnswers
pub mod ChannelWrittenRead
pub mod ChannelReadWritten
-- all of it in lent buffers
pub mod RoundTripsInBuffers
pub mod RoundTripsByCalls
pub mod RoundTripsToC
-- why a block is not read, or not written, exactly
pub mod BlockCauses
pub mod BlockCausesByCalls
