mod Filled
mod Rows
mod TalkRows
