-- A fault that was passed on as it came.
use Rattle.std.proofs.Common.{◌≡◌, Result, Ok, Err, IsErrAnd, IfErr, sym, subst}

pub same_fault : {T E : Type 0} (r : Result T E) (came : E) (P : E → Type 0) → IsErrAnd r (λ e. e ≡ came) → P came →
    IfErr r P
same_fault (Ok x) came P handed is = tt
same_fault (Err e) came P handed is = subst P (sym handed) is
