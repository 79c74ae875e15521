-- Expressions: the tree that the tokens make, its evaluation as a trace, the answer.
pub mod Trees
pub mod Evaluations
pub mod Answers
pub mod inner
