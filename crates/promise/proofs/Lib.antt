mod Words
mod Answers
mod Programs
