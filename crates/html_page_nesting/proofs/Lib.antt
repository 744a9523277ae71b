mod ScriptTexts
pub mod Walks
pub mod Passing
