-- The export's clause is that of the call, one by one.
mod HandedOn
