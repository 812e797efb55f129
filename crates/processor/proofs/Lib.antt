mod Steps
mod Valid
