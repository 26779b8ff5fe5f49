mod Once
mod Judgements
mod Turns
