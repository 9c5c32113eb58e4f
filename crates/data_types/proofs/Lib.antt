-- From what it means each type comes back.
pub mod Back
