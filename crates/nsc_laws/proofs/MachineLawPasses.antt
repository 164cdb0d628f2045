-- What is known of an event by its parts, and of two things that are known of one event.
use Rattle.std.proofs.Common.{List, ◌++◌, append_assoc, Result, Ok, Err, sym, subst}
use Rattle.nsc_model.specs.declared.record.Record.{Record}
use Rattle.nsc_model.specs.Machine.{◌>>=◌, Cache, Passed, Stopped, Turn, after_adds}
use Rattle.nsc_laws.specs.Reloading.{PassesThen, TurnsThen}

pub passes_after : (others stops : Cache → List Record → Type 0) (adds h : List Record) (r : Result Passed Stopped) → PassesThen others stops (adds ++ h) r → PassesThen others stops h (after_adds adds r)
passes_after others stops adds h (Ok passed) m = subst (others passed.cache) (sym (append_assoc passed.adds adds h)) m
passes_after others stops adds h (Err stop) m = subst (stops stop.cache) (sym (append_assoc stop.adds adds h)) m

pub passes_then : (first others stops : Cache → List Record → Type 0) (h : List Record) (r : Result Passed Stopped) (next : Cache → Result Passed Stopped) → PassesThen first stops h r → ((cache : Cache) (before : List Record) → first cache before → PassesThen others stops before (next cache)) → PassesThen others stops h (r >>= next)
passes_then first others stops h (Ok passed) next m on = passes_after others stops passed.adds h (next passed.cache) (on passed.cache (passed.adds ++ h) m)
passes_then first others stops h (Err stop) next m on = m

-- two things are known of one event, and what both come to
pub passes_both : (a b both x y stops : Cache → List Record → Type 0) (h : List Record) (r : Result Passed Stopped) → ((c : Cache) (l : List Record) → a c l → b c l → both c l) → ((c : Cache) (l : List Record) → x c l → y c l → stops c l) → PassesThen a x h r → PassesThen b y h r → PassesThen both stops h r
passes_both a b both x y stops h (Ok passed) on at first second = on passed.cache (passed.adds ++ h) first second
passes_both a b both x y stops h (Err stop) on at first second = at stop.cache (stop.adds ++ h) first second

pub turns_both : (a b both x y stops : Cache → List Record → Type 0) (h : List Record) (r : Result Turn Stopped) → ((c : Cache) (l : List Record) → a c l → b c l → both c l) → ((c : Cache) (l : List Record) → x c l → y c l → stops c l) → TurnsThen a x h r → TurnsThen b y h r → TurnsThen both stops h r
turns_both a b both x y stops h (Ok turn) on at first second = on turn.cache (turn.adds ++ h) first second
turns_both a b both x y stops h (Err stop) on at first second = at stop.cache (stop.adds ++ h) first second
