mod Lefts
mod Reports
mod Answered
mod Counted
