mod Coding
mod Shapes
mod Telling
mod Facts
mod Parts
