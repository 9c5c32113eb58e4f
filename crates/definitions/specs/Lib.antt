-- What a reader must believe, in this order.
pub mod Reply
pub mod Bytes
pub mod Ieee754
pub mod Unicode
pub mod Header
pub mod DataType
pub mod Channel
pub mod WrittenValue
pub mod Overlap
pub mod ChannelBlock
pub mod DataList
pub mod Chain
pub mod Accepted
pub mod Payload
pub mod Table
pub mod Report
