pub mod FirstFault
pub mod Judgement
pub mod CheckLaws
pub mod SameJudgement
pub mod Migration
pub mod MigrationLaws
pub mod inner
