mod LogEndLemmas
mod RenewLemmas
