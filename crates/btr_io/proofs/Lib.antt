mod TakenBytes
mod GivenBytes
