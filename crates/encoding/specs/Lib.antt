-- What a sound area encodes: states of the machine that the clauses of soundness allow, and the area that encodes one.
pub mod Entries
pub mod Encodes
pub mod Facts
