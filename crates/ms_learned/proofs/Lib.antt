mod Cut
mod Told
mod Listed
mod Solved
mod Sound
