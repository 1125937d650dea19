mod Finding
mod OneMore
mod Alone
mod SameRule
mod DayByDay
