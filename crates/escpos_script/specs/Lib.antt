pub mod ScriptOutput
pub mod Play
pub mod ScriptSteps
pub mod ScriptLines
