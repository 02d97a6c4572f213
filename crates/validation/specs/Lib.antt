-- The judgement of a deck: the environment behind some statements (Environment), a statement's number 3 to 10 (Refusals), the whole deck, with 11
-- and 12 and the program (Deck), the same as rules (Rules); the numbers of the code's refusals (RefusalNumbers). Of these: a deck is judged by its
-- entries alone (EntryLaws), the range of the answers and the program's counts (Laws), each name has one purpose (Names), only ROUTINE declares a
-- routine (Declares), labels and routines stand at steps (Targets), the places of names are below the counts (Placed), the rounds of 12 are enough
-- (Rounds), so it holds exactly when a chain of EXECUTEs (Chains) leads from a routine back to itself (ChainLaws); steps, labels and routines
-- stand in scopes (Standing), and statements lead where they may (ScopeLaws).
pub mod ChainLaws
pub mod Chains
pub mod Deck
pub mod Declares
pub mod EntryLaws
pub mod Environment
pub mod Laws
pub mod Names
pub mod Placed
pub mod RefusalNumbers
pub mod Refusals
pub mod Rounds
pub mod Rules
pub mod ScopeLaws
pub mod Standing
pub mod Targets
