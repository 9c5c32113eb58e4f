-- About the codes of types.

-- every code comes back from its type, and every type from its code, but an unknown one that was made with another's
pub mod TypeCodes
