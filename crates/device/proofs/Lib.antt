-- The laws, by subject; then the claims.
pub mod HandleLaws
pub mod ReplyLaws
pub mod TransferLaws
pub mod CaseLaws
pub mod AnswerRows
pub mod HandlingExact
pub mod StateFirst
pub mod RefusedKept
pub mod Asking
pub mod EndedExact
pub mod WorkedFrames
