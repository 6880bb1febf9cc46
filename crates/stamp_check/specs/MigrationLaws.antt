-- The laws of migration, over the definitions alone.
use Rattle.std.specs.Prelude.{ℕ, ◌↔◌}
use Rattle.stamp_core.specs.Limits.{AreInRange}
use Rattle.stamp_core.specs.Record.{Recorded, IsRecorded}
use Rattle.stamp_core.specs.Linearized.{IsLinearized}
use Rattle.stamp_core.specs.Respelling.{IsRespelled}
use Rattle.stamp_check.specs.declared.checking.Why.{Why}
use Rattle.stamp_check.specs.FirstFault.{IsFirstFault}
use Rattle.stamp_check.specs.SameJudgement.{HaveSameJudgement}
use Rattle.stamp_check.specs.Migration.{respelling, migrated, CanMigrate}

-- A stamp is respelled to that of the same kind, version and count; what is none in layout 2 to 0.
abbrev pub RespellingIsOfStamps : Type 0
RespellingIsOfStamps = (s : ℕ) → IsRespelled s (respelling s)

-- A recorded history that is linearized can be migrated, and the migrated one is linearized.
abbrev pub LinearizedMigrates : Type 0
LinearizedMigrates =
    (r : Recorded) → IsRecorded r → AreInRange r.limits → IsLinearized r →
    CanMigrate r × IsLinearized (migrated r)

-- A recorded history that can be migrated is linearized exactly where the migrated one is.
abbrev pub MigrationKeepsLinearized : Type 0
MigrationKeepsLinearized =
    (r : Recorded) → IsRecorded r → AreInRange r.limits → CanMigrate r →
    IsLinearized (migrated r) ↔ IsLinearized r

-- And it has the same first fault.
abbrev pub MigrationKeepsFaults : Type 0
MigrationKeepsFaults =
    (r : Recorded) (i : ℕ) (why : Why) → IsRecorded r → AreInRange r.limits → CanMigrate r →
    IsFirstFault (migrated r) i why ↔ IsFirstFault r i why

-- So whatever a check says of the one, it says of the other.
abbrev pub MigrationKeepsVerdicts : Type 0
MigrationKeepsVerdicts =
    (r : Recorded) → IsRecorded r → AreInRange r.limits → CanMigrate r →
    HaveSameJudgement (migrated r) r
