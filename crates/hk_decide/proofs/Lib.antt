mod Firsts
mod Openings
mod Ends
mod Standings
mod Settlements
mod Trials
