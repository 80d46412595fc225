mod Following
mod Telling
