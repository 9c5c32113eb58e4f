-- What an export owes the call that it hands on to.
pub mod HandedOn
