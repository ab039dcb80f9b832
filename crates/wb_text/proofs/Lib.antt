pub mod Decimal
pub mod Digits
pub mod LineFeeds
pub mod Numbers
pub mod Rows
pub mod Shown
pub mod WordsOfLine
