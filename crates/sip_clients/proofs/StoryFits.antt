-- What happens to a client request is allowed by what happened to it before.
use Rattle.std.proofs.Common.{◌≡◌, ℕ, Bool, true, false, cond, ◌||◌, List, [], ◌∷◌, ◌++◌, map, refl, sym, ap, subst, ◌∙◌, append-nil, append_assoc}
use Rattle.std.specs.Prelude.{Option, None, Some, IfSome, fold, is_some, take, if◌then◌else◌}
use Rattle.std.specs.List.{list_any}
use Rattle.std.specs.Map.{lookup, set_value}
use Rattle.std.specs.Option.{option_map, option_map_or}
use Rattle.std.proofs.lemmas.Bool.{true≢false}
use Rattle.keyed_machine.proofs.Ordered.{by_bool}
use Rattle.sip_message.specs.HopByHop.{cancel_of}
use Rattle.sip_message.specs.TopVia.{top_via}
use Rattle.sip_message.specs.declared.id.Id.{Id}
use Rattle.sip_message.specs.declared.message.Message.{Message}
use Rattle.sip_message.specs.declared.via.Via.{Via}
use Rattle.sip_held_dialogs.specs.declared.held_dialog.DialogId.{DialogId}
use Rattle.sip_held_dialogs.specs.Ids.{is_id}
use Rattle.sip_held_dialogs.proofs.Each.{each_inserted, each_set, found_one}
use Rattle.sip_clients.specs.declared.answers.SentAck.{SentAck}
use Rattle.sip_clients.specs.declared.client.Cancelling.{Cancelling}
use Rattle.sip_clients.specs.declared.client.Cancelling.TheVariants as cancel
use Rattle.sip_clients.specs.declared.client.Client.{Client}
use Rattle.sip_clients.specs.declared.client.RequestKind.{RequestKind}
use Rattle.sip_clients.specs.Cancel.{cancel_client, freed_by}
use Rattle.sip_clients.specs.ClientLife.{ClientHappening, Outgoing, AsksCancel, GetsSuccess, GetsSuccessAgain, SendsAck, SendsAckAgain, SendsCancel}
use Rattle.sip_clients.specs.ClientRules.{AllLive, EachFits, Fits, IsAskedFor, IsCancelOf}
use Rattle.sip_clients.specs.ClientStory.{ClientStory, asked_first, cancelling_of, client_told, first_success, is_cancel_sent, is_provisional_response, is_success_response, lives_on}
use Rattle.sip_clients.specs.ClientTelling.{ClientStories, begin_story, happens_to}
use Rattle.sip_clients.specs.ReceivedResponse.{is_invite_kind}
use Rattle.sip_clients.proofs.ClientRecords.{any_more, asked_by, asked_more}
use Rattle.sip_clients.proofs.StoryBegins.{freed_out, sent_as}

-- ---- one thing after another

pub each_both : (story : ClientStory) (before life more : List ClientHappening)
    → EachFits story before life → EachFits story (before ++ life) more
    → EachFits story before (life ++ more)
each_both story before [] more first second =
    subst (λ before. EachFits story before more) (append-nil before) second
each_both story before (h ∷ life) more first second = (
  first.0,
  each_both story (before ++ h ∷ []) life more first.1
      (subst (λ before. EachFits story before more) (sym (append_assoc before (h ∷ []) life))
      second),
)

-- a happening after these
pub fits_at : (story : ClientStory) (before first later : List ClientHappening)
    (h : ClientHappening) → EachFits story before (first ++ h ∷ later)
    → Fits story (before ++ first) h
fits_at story before [] later h fits =
    subst (λ before. Fits story before h) (sym (append-nil before)) fits.0
fits_at story before (g ∷ first) later h fits =
    subst (λ before. Fits story before h) (append_assoc before (g ∷ []) first)
    (fits_at story (before ++ g ∷ []) first later h fits.1)

-- ---- the stories

-- only the request as it was sent counts
fits_kept : (story : ClientStory) (life before : List ClientHappening) (h : ClientHappening)
    → Fits story before h → Fits (record story { life = life }) before h
fits_kept story life before (AsksCancel id) fits =
    record { inviting = fits.inviting; unanswered = fits.unanswered }
fits_kept story life before (SendsCancel cancel) fits = record {
  inviting = fits.inviting;
  provisional = fits.provisional;
  unanswered = fits.unanswered;
  alone = fits.alone;
  asked = fits.asked;
  request = fits.request;
  branch = fits.branch;
  to = fits.to;
}
fits_kept story life before (SendsAckAgain name ack) fits = fits
fits_kept story life before _ fits = tt

each_kept : (story : ClientStory) (life before more : List ClientHappening)
    → EachFits story before more → EachFits (record story { life = life }) before more
each_kept story life before [] fits = tt
each_kept story life before (h ∷ more) fits = (
  fits_kept story life before h fits.0,
  each_kept story life (before ++ h ∷ []) more fits.1,
)

abbrev pub LivesSo : ClientStory → Type 0
LivesSo story = EachFits story [] story.life

pub happens_fit : (id : Id) (more : List ClientHappening) (stories : ClientStories)
    → AllLive stories
    → ((story : ClientStory) → lookup (is_id id) stories ≡ Some story
    → EachFits story [] story.life → EachFits story story.life more)
    → AllLive (happens_to id more stories)
happens_fit id more stories all fits = by_found (lookup (is_id id) stories) refl
  where
    by_found : (o : Option ClientStory) → lookup (is_id id) stories ≡ o
        → AllLive (option_map_or
        (λ story. set_value (is_id id) stories (lives_on more story)) o stories)
    by_found None is = all
    by_found (Some story) is =
        let lived : LivesSo story =
        subst (λ o. IfSome o LivesSo) is (found_one LivesSo (is_id id) stories all) in
        each_set LivesSo (is_id id) stories (lives_on more story)
        (each_kept story (story.life ++ more) [] (story.life ++ more)
        (each_both story [] story.life more lived (fits story is lived))) all

pub begin_fit : (sent_for : Message → RequestKind) (sent : List Outgoing)
    (stories : ClientStories) → AllLive stories
    → AllLive (fold (begin_story sent_for) stories sent)
begin_fit sent_for [] stories all = all
begin_fit sent_for (one ∷ sent) stories all =
    begin_fit sent_for sent (begin_story sent_for stories one)
    (each_inserted LivesSo is_id one.id _ tt stories all)

pub acks_fit : (story : ClientStory) (before : List ClientHappening) (name : DialogId)
    (acks : List SentAck) → EachFits story before (map (SendsAck name) acks)
acks_fit story before name [] = tt
acks_fit story before name (ack ∷ acks) =
    (tt, acks_fit story (before ++ SendsAck name ack ∷ []) name acks)

-- ---- the first 2xx

first_later : (before later : List ClientHappening) → first_success before ≡ None
    → first_success (before ++ later) ≡ first_success later
first_later [] later none = refl
first_later (GetsSuccess name moment ∷ before) later none = absurd cc
first_later (_ ∷ before) later none = first_later before later none

none_success : (life : List ClientHappening) → list_any is_success_response life ≡ false
    → first_success life ≡ None
none_success [] none = refl
none_success (GetsSuccess name moment ∷ life) none = absurd (true≢false none)
none_success (GetsSuccessAgain name ∷ life) none = absurd (true≢false none)
none_success (_ ∷ life) none = none_success life none

module _ (story : ClientStory) where
  -- if a command still waits, the request is an INVITE and no 2xx came
  asked_fit : (before life : List ClientHappening) (id : Id) → EachFits story before life
      → asked_first life ≡ Some id → IsAskedFor story (before ++ life)
  asked_fit before [] id fits is = absurd cc
  asked_fit before (AsksCancel other ∷ life) id fits is =
      by_bool (list_any is_success_response life)
      (λ came. subst (IsAskedFor story) (append_assoc before (AsksCancel other ∷ []) life)
      (asked_fit (before ++ AsksCancel other ∷ []) life id fits.1
      (sym (ap (λ b. cond b (asked_first life) (Some other)) came) ∙ is)))
      (λ none. record {
        inviting = fits.0.inviting;
        unanswered = first_later before (AsksCancel other ∷ life) fits.0.unanswered
            ∙ none_success life none;
      })
  asked_fit before (h ∷ life) id fits is =
      subst (IsAskedFor story) (append_assoc before (h ∷ []) life)
      (asked_fit (before ++ h ∷ []) life id fits.1 is)

  -- ---- the CANCEL

  -- the CANCEL may go out as soon as a provisional response has come
  pub record IsReady (before : List ClientHappening) (id : Id) : Type 0 where
    pub asked_so : IsAskedFor story before
    pub alone : list_any is_cancel_sent before ≡ false
    pub asked : asked_first before ≡ Some id

  waiting_by : (sent : Bool) (asked : Option Id) (id : Id)
      → (if sent then cancel.Sent else option_map_or cancel.Waits asked cancel.NotAsked)
      ≡ cancel.Waits id → (sent ≡ false) × (asked ≡ Some id)
  waiting_by true asked id is = absurd cc
  waiting_by false None id is = absurd cc
  waiting_by false (Some other) id is =
      let same : other ≡ id = cc in (refl, ap (λ id. Some id) same)

  pub waits_ready : (id : Id) → EachFits story [] story.life
      → cancelling_of story.life ≡ cancel.Waits id → IsReady story.life id
  waits_ready id fits is =
      let so = waiting_by (list_any is_cancel_sent story.life) (asked_first story.life) id is in
      record { asked_so = asked_fit [] story.life id fits so.1; alone = so.0; asked = so.1 }

  -- after something that is no final response, no command and no CANCEL
  pub ready_then : (before : List ClientHappening) (id : Id) (h : ClientHappening)
      → asked_by (Some id) h ≡ Some id → is_cancel_sent h ≡ false
      → first_success (h ∷ []) ≡ None → IsReady before id → IsReady (before ++ h ∷ []) id
  ready_then before id h asks sends succeeds ready = record {
    asked_so = record {
      inviting = ready.asked_so.inviting;
      unanswered = first_later before (h ∷ []) ready.asked_so.unanswered ∙ succeeds;
    };
    alone = any_more is_cancel_sent before h ∙ (λ i. ready.alone i || sends i);
    asked = asked_more before h ∙ ap (λ o. asked_by o h) ready.asked ∙ asks;
  }

  top_same : (request : Message) (vias : List Via)
      → top_via (record request { vias = take 1 vias }) ≡ top_via (record request { vias = vias })
  top_same request [] = refl
  top_same request (via ∷ vias) = refl

  pub cancel_fits : (before : List ClientHappening) (id : Id) (invite : Client)
      → invite.request ≡ story.request → invite.to ≡ story.to
      → list_any is_provisional_response before ≡ true → IsReady before id
      → IsCancelOf story before (sent_as id (cancel_client id invite))
  cancel_fits before id invite same to came ready = record {
    inviting = ready.asked_so.inviting;
    provisional = came;
    unanswered = ready.asked_so.unanswered;
    alone = ready.alone;
    asked = ready.asked;
    request = ap cancel_of same;
    branch = ap (λ request. top_via (cancel_of request)) same
        ∙ top_same story.request story.request.vias;
    to = to;
  }

  pub freed_fits : (before : List ClientHappening) (invite : Client) (state : Cancelling)
      → invite.request ≡ story.request → invite.to ≡ story.to
      → list_any is_provisional_response before ≡ true
      → ((id : Id) → state ≡ cancel.Waits id → IsReady before id)
      → EachFits story before (map SendsCancel (freed_out invite (freed_by false state)))
  freed_fits before invite cancel.NotAsked same to came ready = tt
  freed_fits before invite (cancel.Waits id) same to came ready =
      (cancel_fits before id invite same to came (ready id refl), tt)
  freed_fits before invite cancel.Sent same to came ready = tt

  -- ---- a command to cancel

  none_removed : (first : Option ℕ) (change : ℕ → ℕ) → is_some (option_map change first) ≡ false
      → first ≡ None
  none_removed None change none = refl
  none_removed (Some moment) change none = absurd (true≢false none)

  pub asks_fit : (invite : Client) → client_told story ≡ invite
      → is_invite_kind invite.kind ≡ true → is_some invite.removal ≡ false
      → IsAskedFor story story.life
  asks_fit invite is inviting none = record {
    inviting = ap (λ (client : Client). is_invite_kind client.kind) is ∙ inviting;
    unanswered = none_removed (first_success story.life) _
        (ap (λ (client : Client). is_some client.removal) is ∙ none);
  }

  not_asked : (sent : Bool) (asked : Option Id)
      → (if sent then cancel.Sent else option_map_or cancel.Waits asked cancel.NotAsked)
      ≡ cancel.NotAsked → (sent ≡ false) × (asked ≡ None)
  not_asked true asked is = absurd cc
  not_asked false None is = (refl, refl)
  not_asked false (Some other) is = absurd cc

  pub asks_ready : (id : Id) → IsAskedFor story story.life
      → cancelling_of story.life ≡ cancel.NotAsked
      → IsReady (story.life ++ AsksCancel id ∷ []) id
  asks_ready id asks is =
      let so = not_asked (list_any is_cancel_sent story.life) (asked_first story.life) is in
      record {
        asked_so = record {
          inviting = asks.inviting;
          unanswered = first_later story.life (AsksCancel id ∷ []) asks.unanswered;
        };
        alone = any_more is_cancel_sent story.life (AsksCancel id) ∙ ap (λ b. b || false) so.0;
        asked = asked_more story.life (AsksCancel id)
            ∙ ap (λ o. asked_by o (AsksCancel id)) so.1;
      }
