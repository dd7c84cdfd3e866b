mod Published
mod Texts
