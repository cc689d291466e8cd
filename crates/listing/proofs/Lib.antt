-- The laws; each file of claims in specs/ has its theorems in the file of its name here, and `each_listed` in
-- DecisionTexts, `run_adds` and `lines_joined` in RunAdds.
pub mod Digits
pub mod Decimals
pub mod Puts
pub mod LineTexts
pub mod LineCalls
pub mod LoopLaws
pub mod LoopRuns
pub mod DecisionTexts
pub mod WholeListing
pub mod RunAdds
pub mod TurnListings
pub mod WorkedListings
