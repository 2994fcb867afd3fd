-- What was asked, and what the program holds and tells: the list of calls of someone who went back.
pub mod Asked
pub mod Claim
