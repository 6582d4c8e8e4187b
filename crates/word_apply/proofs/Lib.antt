pub mod TableLaws
pub mod CoverLaws
pub mod GateCalls
pub mod EdgeLists
pub mod FoldCalls
pub mod WordCalls
pub mod ExpressionLaws
pub mod ExpressionCalls
