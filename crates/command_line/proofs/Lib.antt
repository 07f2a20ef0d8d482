pub mod BuiltCommands
pub mod ParsedWords
pub mod MixTexts
pub mod PathLists
pub mod ScriptFaults
pub mod AskedWords
