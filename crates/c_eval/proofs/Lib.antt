mod Runs
mod LaidOut
mod Cells
mod Accepted
mod Values
