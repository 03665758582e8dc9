-- Laws of the definitions (Decimal, Grammar, Automaton) and of the reader's loops (Steps); the claims (Claims, Beginning) and what they rest on.
pub mod Decimal
pub mod Grammar
pub mod Automaton
pub mod Steps
pub mod Completeness
pub mod Soundness
pub mod Claims
pub mod LongLine
pub mod Beginning
