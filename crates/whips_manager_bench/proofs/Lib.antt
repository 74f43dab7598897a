mod Fed
mod Waiting
