-- What a text holds once an answer was put into it.
pub mod Said
