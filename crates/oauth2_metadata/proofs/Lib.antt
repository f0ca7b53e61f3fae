pub mod PlaceLaws
pub mod ReplyLaws
pub mod Addresses
pub mod TextLists
pub mod MetadataRows
pub mod BackLaws
