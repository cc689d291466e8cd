-- The laws; each file of claims in specs/ has its theorems in the file of its name here.

-- the contracts
pub mod StepLaws
pub mod PlayLaws
-- one call
pub mod NextAnswers
pub mod StopLaws
pub mod RangeLaws
pub mod EachCall
-- turns
pub mod LineLaws
pub mod TextsSpelled
pub mod WindowLaws
pub mod Sides
pub mod Told
pub mod TurnReplays
pub mod ClosingLaws
pub mod Directions
-- by computation
pub mod WorkedReplays
