-- What stands before the walk: the sizes in document 01's order, then the model.
use Rattle.std.specs.Prelude.{ℕ, ◌≤◌, ◌≡◌, refl, Bool, true, false, List, ltb, ℤ, length, Result, Ok, Err, MatchResult}
use Rattle.std.proofs.Common.{ap, subst, ◌∙◌, arith, ltb-false}
use Rattle.meaning.specs.Limits.{most_model_words, most_log_words, fewest_places}
use Rattle.meaning.specs.Refusals.{words_after_model}
use Rattle.meaning.specs.Model.{Model, read_model}
use Rattle.meaning.specs.Check.{Outcome, shut_early, admitted, guarded, good, good_of, read_good}
use Rattle.model.specs.Planned.{Planned, model_of, Modelled, unread}
use Rattle.model.specs.declared.Plan.{Plan}
use Rattle.reading.specs.Told.{Skims}
use Rattle.reading.specs.Reasons.{number_of}
use Rattle.reading.specs.declared.refusals.Reason.TheVariants as reason
use Rattle.reading.specs.declared.refusals.Refusal.{Refusal}
use Rattle.walking.specs.declared.Answer.{Answer}
use Rattle.walking.specs.declared.Answer.TheVariants as answer

-- a refusal before the walk carries step 0
abbrev pub ToldEarly : Refusal → Answer → Type 0
ToldEarly e r = r ≡ answer.Refused (number_of e.reason) 0 e.position

-- the first size that is wrong
abbrev pub sizes_by : Bool → Bool → Bool → Result (Unit {0}) Refusal
sizes_by true longLog fewPlaces = Err (record { reason = reason.ModelTooLong; position = 0 })
sizes_by false true fewPlaces = Err (record { reason = reason.LogTooLong; position = 0 })
sizes_by false false true = Err (record { reason = reason.TooFewPlaces; position = 0 })
sizes_by false false false = Ok tt

abbrev pub sizes_of : ℕ → ℕ → ℕ → Result (Unit {0}) Refusal
sizes_of model log places = sizes_by (ltb most_model_words model) (ltb most_log_words log) (ltb places fewest_places)

module _ (model log : List ℤ) (places : ℕ) where
  -- whatever is to be done with a good model, the check is shut
  abbrev pub RefusedAt : ℕ → ℕ → Type 0
  RefusedAt num p = (num ≤ words_after_model) × ((next : Model → Outcome) → guarded model log places next ≡ shut_early num p)

  pub record OpenTo (starts : List ℕ) (v c : ℕ) : Type 0 where
    pub modelled : Modelled model
    pub planned : Planned model starts v c
    pub log_fits : length log ≤ most_log_words
    pub places_suffice : fewest_places ≤ places
    pub is_good : read_good model ≡ good (model_of model)
    pub on : (next : Model → Outcome) → guarded model log places next ≡ next (model_of model)

  -- the plan has the model's words
  abbrev pub Enters : Result Plan Refusal → Type 0
  Enters (Err e) = RefusedAt (number_of e.reason) e.position × (e.position ≤ 65536)
  Enters (Ok plan) = (plan.words.now ≡ model) × OpenTo plan.starts.now plan.variables plan.rows

  pub refused_by_size : {e : Refusal} → Err e ≡ sizes_of (length model) (length log) places → RefusedAt (number_of e.reason) e.position × (e.position ≤ 65536)
  refused_by_size f = go (ltb most_model_words (length model)) (ltb most_log_words (length log)) (ltb places fewest_places) f
    where
      go : {e : Refusal} (a b c : Bool) → Err e ≡ sizes_by a b c
          → ((number_of e.reason ≤ words_after_model) × ((next : Model → Outcome) → admitted a b c (read_model 0 model) next ≡ shut_early (number_of e.reason) e.position)) × (e.position ≤ 65536)
      go {e} true b c f = let q : e ≡ record { reason = reason.ModelTooLong; position = 0 } = cc in rw q ((omega arith, λ next. refl), omega arith)
      go {e} false true c f = let q : e ≡ record { reason = reason.LogTooLong; position = 0 } = cc in rw q ((omega arith, λ next. refl), omega arith)
      go {e} false false true f = let q : e ≡ record { reason = reason.TooFewPlaces; position = 0 } = cc in rw q ((omega arith, λ next. refl), omega arith)
      go false false false f = absurd (let z : ◌≡◌ {A = ℕ} 0 1 = cc in omega arith)

  pub record SizesFit : Type 0 where
    pub model_fits : ltb most_model_words (length model) ≡ false
    pub log_fits : ltb most_log_words (length log) ≡ false
    pub places_suffice : ltb places fewest_places ≡ false

  pub sizes_fit : {u : Unit {0}} → Ok u ≡ sizes_of (length model) (length log) places → SizesFit
  sizes_fit f = go (ltb most_model_words (length model)) refl (ltb most_log_words (length log)) refl (ltb places fewest_places) refl f
    where
      go : {u : Unit {0}} (a : Bool) → ltb most_model_words (length model) ≡ a → (b : Bool) → ltb most_log_words (length log) ≡ b → (c : Bool) → ltb places fewest_places ≡ c → Ok u ≡ sizes_by a b c → SizesFit
      go true e b f c g h = absurd (let z : ◌≡◌ {A = ℕ} 0 1 = cc in omega arith)
      go false e true f c g h = absurd (let z : ◌≡◌ {A = ℕ} 0 1 = cc in omega arith)
      go false e false f true g h = absurd (let z : ◌≡◌ {A = ℕ} 0 1 = cc in omega arith)
      go false e false f false g h = record { model_fits = e; log_fits = f; places_suffice = g }

  module _ (s : SizesFit) where
    fitting : (next : Model → Outcome) → guarded model log places next ≡ admitted false false false (read_model 0 model) next
    fitting next = rw (s.model_fits, s.log_fits, s.places_suffice)

    short : length model ≤ 65536
    short = omega (arith, ltb-false most_model_words (length model) s.model_fits)

    -- as the reading of the model leaves it
    pub read_so : (r : Result Plan Refusal) → MatchResult r (λ plan. (plan.words.now ≡ model) × Modelled model) (λ e. Skims read_model model 0 (Err e)) → Enters r
    read_so (Err e) h =
        let u = unread h in
        ((u.number.1, λ next. fitting next ∙ ap (λ g. admitted false false false g next) u.is), omega (arith, u.inside, short))
    read_so (Ok plan) (e, m) = (
      e,
      record {
        modelled = m;
        planned = subst (λ ws. Planned ws plan.starts.now plan.variables plan.rows) e plan.planned;
        log_fits = ltb-false most_log_words (length log) s.log_fits;
        places_suffice = ltb-false places fewest_places s.places_suffice;
        is_good = ap (λ b. good_of b (read_model 0 model)) s.model_fits ∙ rw m.is;
        on = λ next. fitting next ∙ rw m.is;
      },
    )
