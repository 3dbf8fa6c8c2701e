mod Ends
mod OneStep
mod Walks
