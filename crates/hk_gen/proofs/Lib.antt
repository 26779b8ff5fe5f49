mod Handlers
mod Pieces
