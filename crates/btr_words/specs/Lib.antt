-- what the words mean
pub mod Words
-- how they are read
pub mod Program
