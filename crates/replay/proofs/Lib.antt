-- Laws that belong to no one function.
mod Counting
mod Naming
mod Outcomes
mod Putting
mod Runs
