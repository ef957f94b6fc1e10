mod Doing
mod Telling
mod Saying
mod Ending
