mod Entries
mod Fits
mod LeftSteps
mod Recording
mod Rooms
mod Steps
