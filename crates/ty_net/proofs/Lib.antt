mod Events
mod Numbers
