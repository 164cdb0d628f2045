pub mod ReplyIds
