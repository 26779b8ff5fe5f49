pub mod TestedGoals
