mod Bases
mod Made
mod Valid
mod Turns
