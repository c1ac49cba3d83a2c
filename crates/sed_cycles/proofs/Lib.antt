mod Executing
mod Printing
mod Running
