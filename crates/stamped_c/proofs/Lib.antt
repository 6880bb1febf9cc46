mod Telling
mod Steps
