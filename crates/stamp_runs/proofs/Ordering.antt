-- Ways along events on which calls take effect in this order.
use Rattle.std.proofs.Common.{◌≡◌, ℕ, ◌+◌, List, [], ◌∷◌, ◌++◌, length, refl, ◌∙◌, ap, subst, append_assoc, arith}
use Rattle.std.specs.Prelude.{map}
use Rattle.stamp_runs.specs.declared.event.Event.{Event}
use Rattle.stamp_runs.specs.Object.{Object}
use Rattle.stamp_runs.specs.Run.{Lanes, Leads}
use Rattle.stamp_runs.specs.Run.Leads.{leads_nowhere, by_effect, by_event}
use Rattle.stamp_runs.specs.RunLaws.{OrderSettles}
use Rattle.stamp_runs.specs.Trace.{LeadsBy, Taken, order_from, order_of, taken_at}
use Rattle.stamp_runs.specs.Trace.Move.{Takes, Frees, Hides}
use Rattle.stamp_runs.specs.Trace.LeadsBy.{led_nowhere, by_taken, by_next}

module _ {S : Type 0} (O : Object S) where
  pub leads_of : {n : ℕ} {order : List Taken} {events : List Event} {s t : S} {l m : Lanes} →
      LeadsBy O n order events s l t m → Leads O events s l t m
  leads_of led_nowhere = leads_nowhere
  leads_of (by_taken lane call reply asks step sets rest) = by_effect lane call reply asks step sets (leads_of rest)
  leads_of (by_next event happens rest) = by_event event happens (leads_of rest)

  -- each way has an order
  pub order_on : {events : List Event} {s t : S} {l m : Lanes} → Leads O events s l t m → (n : ℕ) →
      (order : List Taken) × LeadsBy O n order events s l t m
  order_on leads_nowhere n = ([], led_nowhere)
  order_on (by_effect lane call reply asks step sets rest) n = let on = order_on rest n in
      (_, by_taken lane call reply asks step sets on.1)
  order_on (by_event event happens rest) n = let on = order_on rest (n + 1) in (on.0, by_next event happens on.1)

  -- one way after another
  pub ordered_on : {n : ℕ} {order more : List Taken} {past future : List Event} {s t u : S} {a b c : Lanes} →
      LeadsBy O n order past s a t b → LeadsBy O (n + length past) more future t b u c →
      LeadsBy O n (order ++ more) (past ++ future) s a u c
  ordered_on {n} {more = more} {future = future} {s = s} {u = u} {a = a} {c = c} led_nowhere later =
      let same : n + 0 ≡ n = omega arith in subst (λ (k : ℕ). LeadsBy O k more future s a u c) same later
  ordered_on (by_taken lane call reply asks step sets rest) later =
      by_taken lane call reply asks step sets (ordered_on rest later)
  ordered_on {n} {more = more} {future = future} {t = t} {u = u} {b = b} {c = c} (by_next {events = events} event
      happens rest) later = let same : n + length (event ∷ events) ≡ n + 1 + length events = omega arith in
      by_next event happens (ordered_on rest (subst (λ (k : ℕ). LeadsBy O k more future t b u c) same later))

pub order_settles : OrderSettles
order_settles hidden [] older x = refl
order_settles hidden (Takes y ∷ newer) older x =
    ap (λ (order : List Taken). order ++ y ∷ []) (order_settles hidden newer older x) ∙
    append_assoc (order_of older) (order_from hidden (newer ++ Frees x ∷ [])) (y ∷ [])
order_settles hidden (Frees y ∷ newer) older x =
    let last = map (taken_at y.point) hidden ++ y ∷ [] in
    ap (λ (order : List Taken). order ++ last) (order_settles [] newer older x) ∙
    append_assoc (order_of older) (order_from [] (newer ++ Frees x ∷ [])) last
order_settles hidden (Hides calls ∷ newer) older x = order_settles (calls ++ hidden) newer older x
