-- `set_shape` takes the loan that `lend_shaped` gives out of its struct.
use Rattle.std.proofs.Common.{◌≡◌, List, [], ◌∷◌, refl, sym, subst, MutBor, IfOk, IfErr, Ok}
use mir.Syntax.{a_type, named}
use mir.Val.{Val, vptr}
use mir.MapTy.{inst_fn}
use base.Logic.{ent, emp, id⊢}
use base.Fml.{Fml, GName, ftrue, flft}
use prog.Wp.{WpFn}
use types.Kit.{‵, raw, ◌⊛◌, some, later, ◌$◌, ◌∵◌, !, qed, by, move, drop, split, join, fjoin, pick, use0, use1, await, rewrite}
use types.Run.{stop, addr, of_opd, no_more, and_then, returns, enter}
use types.ByLocal.{alloc_all, pass_all, free_all, look_at, get, through, sets, lands_as}
use contract.BorrowLft.{◌⊑◌}
use contract.Monad.{fact, fact_i}
use contract.Running.{tables}
use denote.RattleType.{RattleType, owns}
use denote.Laws.{Is, shows}
use denote.Ref.{MutRef, mut_vals, mut_Lawful}
use denote.Signature.{types_at, type_at, named_lft}
use denote.Memory.{lone}
use denote.Param.{param, layouts}
use denote.Param.Laws.{param_laws, of_field}
use denote.Param.Shared.{copy_shared}
use denote.Param.Steps.{one_value}
use denote.Struct.Field.{u64-field}
use denote.Struct.Laws.{u64-laws, u64-copy}
use denote.Enum.Enum.{Enum-Lawful}
use denote.Enum.Declared.{shape}
use denote.Steps.{nothing, heard, peeks}
use denote.Triple.Clauses.{Lasts, lasts}
use denote.Triple.Spec.{triple_of}
use denote.Triple.Call.{calls_at}
use denote.Triple.Table.{framed}
use denote.Triple.Walked.{Stays, stay_dropped, walk_of, Goes-dropped}
use Rattle.std.proofs.raw_atomic.Walks.{proved_at, leaves}
use Rattle.std.proofs.vec.Vec.TheLaws as vec_laws
use Rattle.std.proofs.alloc.Global.TheLaws as global_laws
use Rattle.std.specs.contracts.alloc.Global as global
use Rattle.std.specs.contracts.impls.GlobalAllocator.TheImpl as global_impl
use Rattle.std.specs.contracts.result.Result as result
use Rattle.std.specs.contracts.vec.Vec as vec
use Rattle.std.specs.Prelude.{Result}
use Rattle.std.specs.Borrow.{RestsIfErr}
use Rattle.zarrs_options.specs.declared.error.ArrayCreateError.{ArrayCreateError}
use Rattle.zarrs_options.specs.contracts.error.ArrayCreateError as error
use Rattle.zarrs_options.proofs.error.ArrayCreateError.TheLaws as error_laws
use Rattle.zarrs.specs.declared.array.Array.{Array}
use Rattle.zarrs.specs.declared.array.setters.ArrayLoan.{ArrayLoan}
use Rattle.zarrs.specs.contracts.array.Array as array
use Rattle.zarrs.specs.contracts.array.setters.ArrayLoan as loan
use Rattle.zarrs.proofs.array.setters.ArrayLoan.TheLaws as loan_laws
use Rattle.zarrs.proofs.Loans.{ok_moves, err_moves, rest_moves, slot_at}
use Rattle.zarrs.specs.contracts.array.setters.array_of as array_of
use Rattle.zarrs.proofs.array.setters.array_of.Met as array_of_met
use Rattle.zarrs.specs.contracts.array.Array.lend_shaped as lend_shaped
use Rattle.zarrs.proofs.array.Array.lend_shaped.Met as lend_shaped_met
use Rattle.zarrs.specs.contracts.array.Array.set_shape.{ended, clauses}
use Rattle.zarrs.specs.contracts.array.Array.set_shape.Key.{name as #self}
use Rattle.zarrs.proofs.array.Array.set_shape.Statement.{statement}
use Rattle.zarrs.proofs.array.Array.set_shape.Code as code
use Rattle.zarrs_options.specs.Refusals.{create_refusal_of, RefusesCreation}
use Rattle.zarrs.specs.Loans.{name_of_loan, IsArrayOf, IsStillShaped}
use Rattle.zarrs.specs.Arrays.{layout_of_array, metadata_of_array, KeepsAllButGrid}
use Rattle.zarrs_creation.specs.Changes.{reshaping}
use Rattle.zarrs.specs.Setters.{KeepsCells, KeepsDecoding}

pub set_shape_spec : {M : Type 1} → statement M
set_shape_spec 𝓤 𝓛 𝓜 𝓡 wired S L =
    let H = 𝓛.H in let 𝓣 = tables 𝓤 H 𝓜 𝓡 𝓡.env in let En = ended S in let c = clauses S 𝓛 𝓜.mem 𝓡.returns in let ps = En.signature.params in let ks = En.kept in
    let fn = inst_fn (layouts (a_type ∷ []) (S, tt)) code.function in
    let vec_row = vec.the_row u64-field.row global.the_row global_impl.ghosts in
    let shape_laws = vec_laws.the_row_laws u64-field.row global.the_row global_impl.ghosts (of_field u64-field u64-laws refl (copy_shared u64-field u64-copy)) global_laws.the_row_laws in
    let hs : Stays En.signature.params En.kept = (stay_dropped (slot_at 0 ps) ks.0, (stay_dropped (slot_at 1 ps) ks.1.0, (stay_dropped (slot_at 2 ps) ks.1.1.0, tt))) in
    proved_at 𝓛 En hs c 𝓜 𝓡 (Goes-dropped 𝓛 2 (slot_at 0 ps) ks.0 (λ κs x f. refl), (Goes-dropped 𝓛 2 (slot_at 1 ps) ks.1.0 (λ κs x f. refl), (Goes-dropped 𝓛 2 (slot_at 2 ps) ks.1.1.0 (λ κs x f. refl), tt)))
    (#self (layouts (a_type ∷ []) (S, tt))) fn (code.unfolded 𝓤 H 𝓜 𝓡 wired (S, tt)) (λ z are.
    let κs = z.0.0 in let qs = z.0.1 in let a = z.0.3 in let vss = z.0.4 in let W = walk_of 𝓛 En hs c in
    let At : List Val → List Val → List Val → W.Ghost = λ us vs1 vs2. ((κs, qs, z.0.2, a, (us, (vs1, (vs2, tt)))), z.1) in
    let Goes : List Val → List Val → List Val → Type 1 = λ us vs1 vs2. ent 𝓤 (W.pre (At us vs1 vs2)) (WpFn 𝓤 H 𝓣.C 𝓣.Λ fn (W.args (At us vs1 vs2)) (W.post (At us vs1 vs2))) in
    one_value (lone global.the_row.mir) (λ vs. Goes vss.0 vs vss.1.1.0) vss.1.0 ((global_laws.the_row_laws.lawful 𝓛).typed a.1.0 vss.1.0 are.1.0) (λ m m-is.
    one_value (lone vec_row.mir) (λ vs. Goes vss.0 (m ∷ []) vs) vss.1.1.0 ((shape_laws.lawful 𝓛).typed a.1.1.0 vss.1.1.0 are.1.1.0) (λ t t-is.
    subst (λ us. Goes us (m ∷ []) (t ∷ [])) (sym are.0.0) (
    let y = At (mut_vals a.0) (m ∷ []) (t ∷ []) in
    let R : RattleType = array.the_row (param 0 S) in let Lent : RattleType = loan.the_row (named_lft 2 0 tt κs) (param 0 S) in
    let Out : RattleType = result.the_row Lent error.the_row in let Out' : RattleType = type_at En.signature.result κs in
    let lent_lawful = Enum-Lawful 𝓛 (shape (result.the_type Lent error.the_row)) tt (((loan_laws.the_row_laws (named_lft 2 0 tt κs) (param 0 S) (param_laws 0 S L)).lawful 𝓛, tt), ((error_laws.the_row_laws.lawful 𝓛, tt), tt)) in
    let array_lawful = Enum-Lawful 𝓛 (shape (result.the_type (MutRef (named 0) κs.0 R) error.the_row)) tt ((mut_Lawful 𝓛 (named 0) κs.0 R, tt), ((error_laws.the_row_laws.lawful 𝓛, tt), tt)) in
    let old : Array S.Denot = a.0.now in let rests : Array S.Denot → Type 0 = IsStillShaped old in
    let same_loan : GName → Array S.Denot → Type 0 = λ γ x. γ ≡ a.0.ghost_name in
    let reshaped : GName → Array S.Denot → Type 0 = λ γ x. reshaping a.1.1.0.items (metadata_of_array old) ≡ Ok (metadata_of_array x) in
    let refused : ArrayCreateError → Type 0 = λ e. RefusesCreation (reshaping a.1.1.0.items (metadata_of_array old)) (create_refusal_of e) in
    let kept : GName → Array S.Denot → Type 0 = λ γ x. KeepsAllButGrid old x in
    let content : GName → Array S.Denot → Type 0 = λ γ x. KeepsCells (layout_of_array old) (layout_of_array x) in
    let decodes : GName → Array S.Denot → Type 0 = λ γ x. KeepsDecoding (layout_of_array old) (layout_of_array x) in
    let toks = ‵ (flft κs.0 qs.0) ⊛ ‵ (flft κs.1.0 qs.1.0) ⊛ ‵ ftrue in
    let k = triple_of 𝓛 (lend_shaped.signature S) (lend_shaped.spec S 𝓛 𝓜.mem 𝓡.returns) in let y₁ : k.Ghost = y in let k' = triple_of 𝓛 (array_of.signature S) (array_of.spec S 𝓛 𝓜.mem 𝓡.returns) in
    qed 𝓛 ((toks ⊛ ‵ (owns (types_at En.signature.params κs) a y.0.4)) ∷ (raw (fact 𝓤 (κs.1.0 ⊑ S.lives)) ⊛ ‵ ftrue) ∷ []) ∵
    move ! (1 ∷ []) $ split ! $ heard ! (κs.1.0 ⊑ S.lives) (λ within'.
    use0 𝓛 (raw (fact 𝓤 (κs.1.0 ⊑ S.lives))) (fact_i 𝓤 (κs.1.0 ⊑ S.lives) (emp 𝓤) within') $ join ! $ move ! (1 ∷ 0 ∷ []) $ join ! $ use1 𝓛 (raw (k.pre y₁)) (id⊢ 𝓤 _) $
    enter ! 𝓣.C 𝓣.Λ fn (vptr a.0.ref_ptr.0 a.0.ref_ptr.1 ∷ m ∷ t ∷ []) (W.post y) $ alloc_all ! (λ l. pass_all ! refl ((tt, tt), (m-is, (t-is, tt))) $
    sets ! (addr ! (through ! refl (stop !))) refl (tt, tt) $ sets ! (of_opd ! (get ! refl)) refl t-is $
    calls_at ! (framed 𝓤 H 𝓜 𝓣) k (lend_shaped_met.met 𝓤 𝓛 𝓜 𝓡 (code.calls-zarrs::array::Array::lend_shaped 𝓡.env wired) S L) y₁ (and_then ! (get ! refl) (and_then ! (get ! refl) (and_then ! (get ! refl) (no_more !)))) (λ v.
    use1 𝓛 (later (some (λ (r : Result (ArrayLoan S.Denot) ArrayCreateError). (toks ⊛ ‵ (Out.own_val r (v ∷ []))) ⊛ some (λ (ls : Lasts (lend_shaped.ended S) κs a). ‵ (lasts (lend_shaped.ended S) κs a ls)
    ⊛ ‵ (RestsIfErr R a.0 name_of_loan r rests) ⊛ raw (fact 𝓤 (IfOk r (λ (l : ArrayLoan S.Denot). same_loan l.array.ghost_name l.array.now)))
    ⊛ raw (fact 𝓤 (IfOk r (λ (l : ArrayLoan S.Denot). reshaped l.array.ghost_name l.array.now)))
    ⊛ raw (fact 𝓤 (IfErr r refused))
    ⊛ raw (fact 𝓤 (IfOk r (λ (l : ArrayLoan S.Denot). kept l.array.ghost_name l.array.now)))
    ⊛ raw (fact 𝓤 (IfOk r (λ (l : ArrayLoan S.Denot). content l.array.ghost_name l.array.now)))
    ⊛ raw (fact 𝓤 (IfOk r (λ (l : ArrayLoan S.Denot). decodes l.array.ghost_name l.array.now)))))))
    (id⊢ 𝓤 (k.post y₁ v)) $ await ! tt $ pick ! (λ r. split ! $ move ! (1 ∷ []) $ pick ! (λ ls. split ! $ drop ! $ split ! $ move ! (1 ∷ []) $ split ! $ heard ! _ (λ same_loan-is. split ! $ heard ! _ (λ reshaped-is. split ! $ heard ! _ (λ refused-is. split ! $ heard ! _ (λ kept-is. split ! $ heard ! _ (λ content-is. heard ! _ (λ decodes-is.
    -- [what the array rests at; the tokens and the loan; the locals]
    move ! (1 ∷ []) $ split ! $ move ! (1 ∷ []) $ peeks ! Out (Is Out) (shows 𝓛 Out) r (v ∷ []) (λ shown.
    nothing ! $ move ! (1 ∷ 0 ∷ []) $ fjoin ! $ move ! (1 ∷ 0 ∷ []) $ join ! $
    nothing ! $ use0 𝓛 (raw (fact 𝓤 (κs.1.0 ⊑ S.lives))) (fact_i 𝓤 (κs.1.0 ⊑ S.lives) (emp 𝓤) within') $ join ! $ move ! (1 ∷ 0 ∷ []) $ join ! $
    let y₂ : k'.Ghost = ((κs, qs, z.0.2, (r, tt), (v ∷ [], tt)), tt) in
    use1 𝓛 (raw (k'.pre y₂)) (id⊢ 𝓤 _) $ lands_as ! refl refl (lent_lawful.typed ((result.the_type Lent error.the_row).to r) (v ∷ []) shown).0 $
    calls_at ! (framed 𝓤 H 𝓜 𝓣) k' (array_of_met.met 𝓤 𝓛 𝓜 𝓡 (code.calls-zarrs::array::setters::array_of 𝓡.env wired) S L) y₂ (and_then ! (get ! refl) (no_more !)) (λ v'.
    use1 𝓛 (later (some (λ (r' : Result (MutBor (Array S.Denot)) ArrayCreateError). (toks ⊛ ‵ (Out'.own_val r' (v' ∷ []))) ⊛ some (λ (ls : Lasts (array_of.ended S) κs (r, tt)). ‵ (lasts (array_of.ended S) κs (r, tt) ls) ⊛ raw (fact 𝓤 (IsArrayOf r r'))))))
    (id⊢ 𝓤 (k'.post y₂ v')) $ await ! tt $ pick ! (λ r'. split ! $ move ! (1 ∷ []) $ pick ! (λ ls'. split ! $ drop ! $ heard ! _ (λ is.
    split ! $ move ! (1 ∷ []) $ peeks ! Out' (Is Out') (shows 𝓛 Out') r' (v' ∷ []) (λ shown'.
    lands_as ! refl refl (array_lawful.typed ((result.the_type (MutRef (named 0) κs.0 R) error.the_row).to r') (v' ∷ []) shown').0 $ returns ! (look_at ! 0 refl) $ free_all ! refl $
    move ! (2 ∷ 0 ∷ 1 ∷ []) $ rewrite ! 0 (λ (F : Fml). ‵ F) (rest_moves R a.0 rests r r' is) refl $
    nothing ! $ nothing ! $ fjoin ! $ nothing ! $ fjoin ! $ nothing ! $ fjoin ! $
    use0 𝓛 (raw (fact 𝓤 (IfOk r' (λ (x : MutBor (Array S.Denot)). decodes x.ghost_name x.now)))) (fact_i 𝓤 (IfOk r' (λ (x : MutBor (Array S.Denot)). decodes x.ghost_name x.now)) (emp 𝓤) (ok_moves decodes r r' is decodes-is)) $
    use0 𝓛 (raw (fact 𝓤 (IfOk r' (λ (x : MutBor (Array S.Denot)). content x.ghost_name x.now)))) (fact_i 𝓤 (IfOk r' (λ (x : MutBor (Array S.Denot)). content x.ghost_name x.now)) (emp 𝓤) (ok_moves content r r' is content-is)) $
    use0 𝓛 (raw (fact 𝓤 (IfOk r' (λ (x : MutBor (Array S.Denot)). kept x.ghost_name x.now)))) (fact_i 𝓤 (IfOk r' (λ (x : MutBor (Array S.Denot)). kept x.ghost_name x.now)) (emp 𝓤) (ok_moves kept r r' is kept-is)) $
    use0 𝓛 (raw (fact 𝓤 (IfErr r' refused))) (fact_i 𝓤 (IfErr r' refused) (emp 𝓤) (err_moves refused r r' is refused-is)) $
    use0 𝓛 (raw (fact 𝓤 (IfOk r' (λ (x : MutBor (Array S.Denot)). reshaped x.ghost_name x.now)))) (fact_i 𝓤 (IfOk r' (λ (x : MutBor (Array S.Denot)). reshaped x.ghost_name x.now)) (emp 𝓤) (ok_moves reshaped r r' is reshaped-is)) $
    use0 𝓛 (raw (fact 𝓤 (IfOk r' (λ (x : MutBor (Array S.Denot)). same_loan x.ghost_name x.now)))) (fact_i 𝓤 (IfOk r' (λ (x : MutBor (Array S.Denot)). same_loan x.ghost_name x.now)) (emp 𝓤) (ok_moves same_loan r r' is same_loan-is)) $
    move ! (9 ∷ 6 ∷ 8 ∷ 7 ∷ 0 ∷ 1 ∷ 2 ∷ 3 ∷ 4 ∷ 5 ∷ []) $ by ! (leaves 𝓛 En hs c y v' r' (tt, (tt, (tt, tt))) (tt, (tt, (tt, tt)))))))))))))))))))))))))
