mod Replying
mod Talking
