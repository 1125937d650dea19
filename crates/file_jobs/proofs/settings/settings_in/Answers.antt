use Rattle.std.proofs.Common.{◌≡◌, Result, Ok, Err, inl, inr, subst, sym}
use Rattle.site_config.specs.Document.{Fails}
use Rattle.site_config.specs.declared.fault.ConfigFault.{ConfigFault}
use Rattle.site_config.specs.declared.fault.ConfigFault.TheVariants as config
use Rattle.file_jobs.specs.FileRefusals.{RefusesConfig, RefusesSettings}
use Rattle.file_jobs.specs.declared.job_error.JobError.{JobError}
use Rattle.file_jobs.specs.declared.job_error.JobError.TheVariants as job_error
use Rattle.file_jobs.proofs.settings.settings_in.Goals as goal

by_memory : {T : Type 0} (read : Result T ConfigFault) (error : JobError) → error ≡ job_error.OutOfMemory → RefusesSettings read error
by_memory (Ok settings) error is = is
by_memory (Err fault) error is = inl is

refused : {T : Type 0} (fault : ConfigFault) (read : Result T ConfigFault) (error : JobError) → Fails fault read → RefusesConfig fault error
    → RefusesSettings read error
refused config.K1 read error is refuses = subst (λ r. RefusesSettings r error) (sym is) (inr refuses)
refused config.K2 read error is refuses = subst (λ r. RefusesSettings r error) (sym is) (inr refuses)
refused config.K3 read error is refuses = subst (λ r. RefusesSettings r error) (sym is) (inr refuses)
refused config.OutOfMemory read error is refuses = by_memory read error refuses

pub returns-in-Err-clause-fault : goal.returns-in-Err-clause-fault
returns-in-Err-clause-fault c = refused _ _ _ c.in-Err.ensures.found c.refuse_config.ensures.refused
