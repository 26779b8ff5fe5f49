mod Walking
mod Limiting
mod Ending
mod Sizing
